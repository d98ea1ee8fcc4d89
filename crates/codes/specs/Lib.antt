pub mod Bic
pub mod Txid
