mod Fitting
mod Taken
