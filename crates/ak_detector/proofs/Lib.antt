pub mod DetectorLaws
pub mod DetectorLemmas
pub mod RingLaws
pub mod RingOrder
