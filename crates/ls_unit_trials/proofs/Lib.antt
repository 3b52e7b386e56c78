mod ExamplesBases
mod ExamplesSets
mod ExamplesTables
