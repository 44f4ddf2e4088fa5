mod Words
mod Parts
