mod Pieces
mod Writing
