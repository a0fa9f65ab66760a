pub mod ArgumentLemmas
pub mod OptionLemmas
pub mod PcomLemmas
pub mod PintLemmas
pub mod WordsLemmas
