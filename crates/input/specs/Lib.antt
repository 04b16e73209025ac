pub mod Reads
pub mod Input
pub mod AllRead
