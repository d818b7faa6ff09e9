pub mod HeldFits
pub mod LawfulAnswers
