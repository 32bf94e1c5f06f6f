pub mod Tables
pub mod Fitting
