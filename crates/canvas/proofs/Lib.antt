mod Sums
mod Units
mod Components
mod Marking
