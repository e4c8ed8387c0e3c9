pub mod Laying
pub mod Refusals
pub mod Outcomes
