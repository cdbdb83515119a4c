pub mod Job
