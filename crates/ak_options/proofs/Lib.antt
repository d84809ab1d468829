pub mod CommandLemmas
pub mod Names
pub mod OneCommand
pub mod OptionLemmas
pub mod PairLaws
pub mod RequestLemmas
