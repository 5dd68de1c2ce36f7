-- The lemmas of this crate.
pub mod ClassLaws
mod Examples
pub mod RuleLaws
pub mod VerdictLaws
