pub mod ActionText
