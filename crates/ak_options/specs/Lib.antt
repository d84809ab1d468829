pub mod Options
pub mod Requests
pub mod CommandLine
pub mod Answers
