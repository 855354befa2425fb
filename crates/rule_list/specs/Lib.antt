-- Which texts are rules, and which rule a key has.
pub mod Rules
pub mod RuleTexts
pub mod Parts
