-- The order of keys, and places in a list of keys.
pub mod KeyOrder
pub mod Digits
pub mod Places
pub mod KeyTables
pub mod NestKeys
pub mod Arrays
pub mod Walk
pub mod Cursors
pub mod Steps
