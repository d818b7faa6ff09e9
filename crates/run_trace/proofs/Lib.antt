mod FoundWords
mod ShownLines
mod OneMore
mod LongerRuns
mod Orders
mod Owings
mod Walks
mod Fronts
