pub mod Draft
pub mod Kind
pub mod Line
pub mod Reading
pub mod Schedule
