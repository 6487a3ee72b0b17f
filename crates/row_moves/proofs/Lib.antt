mod Pieces
mod Units
mod Writing
