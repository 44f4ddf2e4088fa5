mod Asked
mod Whole
