pub mod Detector
pub mod Sides
