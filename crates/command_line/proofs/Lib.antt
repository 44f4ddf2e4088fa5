mod Words
mod Plans
mod RisingNumbers
mod PayloadWords
mod Asking
