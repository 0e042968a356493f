mod Models
mod Runs
