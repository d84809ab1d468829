pub mod AllocationLaws
pub mod AllocationLemmas
