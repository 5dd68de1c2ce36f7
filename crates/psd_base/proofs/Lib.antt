pub mod KeySetLemmas
pub mod KeyWordLemmas
