mod Vocabulary
pub mod Numbers
mod Small
mod ExamplesQueries
mod ExamplesForced
mod ExamplesPages
mod ExamplesSpaces
mod ExamplesStates
mod ExamplesPupils
