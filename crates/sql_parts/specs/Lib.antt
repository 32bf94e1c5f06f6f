pub mod Items
pub mod Lists
pub mod Options
pub mod Queries
pub mod Something
pub mod Tables
