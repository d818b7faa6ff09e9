pub mod Entries
pub mod Shown
pub mod CutViews
pub mod JoinedViews
pub mod WholeViews
pub mod StartViews
