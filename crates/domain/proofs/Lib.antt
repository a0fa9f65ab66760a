mod Growths
pub mod Numbers
