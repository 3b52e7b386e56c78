pub mod FringeTexts
