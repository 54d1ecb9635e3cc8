pub mod Decimals
pub mod Small
pub mod Answers
pub mod Again
pub mod ReadBack
