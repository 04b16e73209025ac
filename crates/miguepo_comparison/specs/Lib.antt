pub mod HostComparison
