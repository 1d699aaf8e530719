mod Exits
mod Cuts
mod Digits
mod Columns
mod Takes
mod LinesRead
mod Promises
