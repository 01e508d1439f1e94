pub mod SentCore
