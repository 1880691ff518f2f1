pub mod MessageLaws
pub mod RuleLaws
