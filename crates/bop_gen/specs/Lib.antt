pub mod GeneratedText
