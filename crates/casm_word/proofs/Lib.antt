mod BrokenRules
mod DecodingLaws
pub mod EncodingLaws
pub mod ExpressionLaws
mod Fields
pub mod ImmediateLaws
mod OneFlag
mod Sums
pub mod WordLaws
