pub mod GroupLaws
pub mod VerdictLaws
pub mod ToldLines
pub mod FirstBreaks
pub mod OneVerified
