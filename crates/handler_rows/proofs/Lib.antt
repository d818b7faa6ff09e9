mod HullLaws
pub mod PickedRows
