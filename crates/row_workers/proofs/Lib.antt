mod Claiming
mod Gathering
mod InOrder
