mod Bounds
