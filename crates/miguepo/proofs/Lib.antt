pub mod HostedFields
pub mod Complement
pub mod Lent
