pub mod TopPlaces
mod CallLaws
pub mod Ready
pub mod Near
mod PhasesReady
mod RootsThere
pub mod SwitchKeys
