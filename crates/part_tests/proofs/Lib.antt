mod HasPlaces
mod Inverter
mod Spread
