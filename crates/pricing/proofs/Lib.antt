pub mod Cleared
pub mod ValuedAnswer
pub mod ToldAnswer
pub mod PricedRead
