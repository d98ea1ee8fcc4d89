pub mod LentText
