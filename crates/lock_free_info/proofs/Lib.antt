mod PathClasses
mod WordCalls
mod TableSteps
mod ShortLines
