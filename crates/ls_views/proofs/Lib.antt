mod Vocabulary
mod Viewing
mod Costs
