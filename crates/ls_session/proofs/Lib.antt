mod Vocabulary
mod Steps
