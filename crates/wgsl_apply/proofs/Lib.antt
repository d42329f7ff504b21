mod Conversions
mod Parts
mod Shifts
mod Zeros
