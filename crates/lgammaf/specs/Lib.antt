pub mod Lgammaf
