pub mod Chains
pub mod LeastSet
pub mod Walks
