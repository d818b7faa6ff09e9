pub mod FewFields
pub mod FewStatics
mod IndexLaws
pub mod FilledTags
pub mod TriedPrograms
mod TagTries
pub mod EachReached
pub mod FrozenChecks
pub mod OwnedChecks
mod MarkChecks
mod UseTries
mod MarkTries
mod ClassTries
mod ArrayTries
pub mod CheckedPlaces
mod OwnTries
mod ReachTries
pub mod EdgesAdded
pub mod CalledMethods
pub mod NamedFields
mod MethodEdges
mod ReachedMethods
pub mod SumsOfSome
mod OneReach
