mod Binders
mod Blocks
mod Goes
mod Grouped
mod Nodes
mod Params
mod Usage
