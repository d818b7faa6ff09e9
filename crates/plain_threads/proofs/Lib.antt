mod RootLaws
mod HoldingLaws
pub mod ThreadLists
