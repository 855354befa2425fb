-- What a site forgets when it ends, and what it doesn't.
pub mod Laws
pub mod Trails
pub mod SpellingLaws
pub mod FitLaws
pub mod LimitLaws
pub mod Lives
pub mod WrongSteps
