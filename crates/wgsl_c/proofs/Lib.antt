mod Counts
mod Values
mod Tables
